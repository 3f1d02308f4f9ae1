-- Loops over collections: what they have passed and what is left, and what a value is not.
pub mod Growth
pub mod Members
