-- Applying a merge patch.
pub mod ByName
pub mod Depth
pub mod InTurn
pub mod Left
pub mod Looks
pub mod Resumption
