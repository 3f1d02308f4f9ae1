-- Texts that spell tokens.
pub mod Kept
pub mod Lengths
pub mod Parser
pub mod Plain
pub mod ReadBack
pub mod Texts
