pub mod Faults
pub mod Peers
pub mod Received
pub mod Shown
