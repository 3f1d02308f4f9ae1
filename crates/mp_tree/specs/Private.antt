-- What private clauses alone cite: who trusts the public contracts need not read it.
pub mod Entries
pub mod Faults
pub mod Lengths
pub mod Readings
pub mod Scalars
