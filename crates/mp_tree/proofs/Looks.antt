-- How a path sees a document.
pub mod Equal
pub mod Known
