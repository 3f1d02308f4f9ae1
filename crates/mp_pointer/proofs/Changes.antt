-- Documents in which one part is changed.
pub mod Child
pub mod Edited
pub mod FollowedBorrows
pub mod SomeChange
pub mod Weights
pub mod Written
