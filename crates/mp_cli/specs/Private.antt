-- What private clauses alone cite: who trusts the public contracts need not read it.
pub mod Answers
pub mod Counts
pub mod LawsBelow
pub mod Matches
