-- What private clauses alone cite: who trusts the public contracts need not read it.
pub mod BadTilde
pub mod Child
pub mod Cuts
pub mod Digits
