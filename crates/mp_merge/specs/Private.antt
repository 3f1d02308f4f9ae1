-- What private clauses alone cite: who trusts the public contracts need not read it.
pub mod Budgets
pub mod Clashes
pub mod Edits
pub mod Growth
pub mod Merging
pub mod Unions
