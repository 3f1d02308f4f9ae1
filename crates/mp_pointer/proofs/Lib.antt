pub mod Changes
pub mod Facts
pub mod Parts
pub mod Results
pub mod Spellings
pub mod Tokens
