-- Runs: operations that lead from one document to another.
pub mod Growth
pub mod Laws
pub mod Readable
pub mod SomeRun
pub mod Stops
pub mod Within
