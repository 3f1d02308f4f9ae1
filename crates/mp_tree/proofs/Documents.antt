-- Documents: what a `Doc` means, and the parts of a document.
pub mod Decisions
pub mod Depths
pub mod Elements
pub mod Meaning
pub mod SameParts
pub mod Shallow
pub mod Sound
pub mod Throughout
pub mod Weights
pub mod Wholes
