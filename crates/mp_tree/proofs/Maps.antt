-- Members whose names ascend, as finite maps, and what is done to them.
pub mod Ascending
pub mod Building
pub mod EachMember
pub mod Edits
pub mod Finite
pub mod Laws
pub mod Names
