-- What private clauses alone cite: who trusts the public contracts need not read it.
pub mod Bounds
pub mod Exchange
pub mod Faults
pub mod Lengths
pub mod Names
pub mod Reading
pub mod Shapes
pub mod Steps
pub mod Within
