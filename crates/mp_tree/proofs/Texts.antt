-- Texts: what is written of a document, and what a reader makes of it.
pub mod Arrays
pub mod ByName
pub mod FromData
pub mod IntoData
pub mod Lengths
pub mod RoundTrip
pub mod Unescaped
pub mod Written
