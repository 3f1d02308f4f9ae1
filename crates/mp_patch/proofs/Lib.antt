pub mod FirstCause
pub mod Forms
pub mod Operations
pub mod Runs
pub mod Shapes
