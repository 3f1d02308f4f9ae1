-- Lists of tokens, and a token that spells an index.
pub mod Indices
pub mod Lists
