-- What a list of tokens names in a document.
pub mod Along
pub mod Children
pub mod Depths
pub mod Documents
pub mod Kinds
pub mod Borrowed
pub mod Readable
