-- Shapes: the documents that are made and written of operations.
pub mod Lengths
pub mod Made
pub mod Readable
pub mod Written
