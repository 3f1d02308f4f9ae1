-- Paths, and what is at their ends.
pub mod Maps
pub mod Rising
