-- Single operations: what they make of a document, and when they are refused.
pub mod Alike
pub mod Bounds
pub mod Depth
pub mod Documents
pub mod Moves
pub mod SingleSteps
pub mod SomeStep
pub mod Taken
pub mod Weights
pub mod Works
