pub mod Answered
pub mod CommandLine
pub mod Counted
pub mod Laws
pub mod Lines
pub mod Private
pub mod Run
