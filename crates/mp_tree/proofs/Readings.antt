-- What is known of a document that was read.
pub mod Documents
pub mod Faults
pub mod Readable
pub mod Values
