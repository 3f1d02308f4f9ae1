-- What private clauses alone cite: who trusts the public contracts need not read it.
pub mod LawsOfTexts
pub mod Reporting
