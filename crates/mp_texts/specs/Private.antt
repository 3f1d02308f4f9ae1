-- What private clauses alone cite: who trusts the public contracts need not read it.
pub mod LawsBelow
pub mod Unread
