-- Joins, and the union that the code computes.
pub mod ByName
pub mod Laws
pub mod Numbered
pub mod Reunited
pub mod Union
