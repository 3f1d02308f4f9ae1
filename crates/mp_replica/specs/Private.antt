-- What private clauses alone cite: who trusts the public contracts need not read it.
pub mod Identities
pub mod LawsBelow
pub mod Pairs
pub mod Places
pub mod Steps
pub mod StoredPatches
pub mod Writing
