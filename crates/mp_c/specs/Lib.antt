pub mod Answered
pub mod Laws
pub mod OnHandles
pub mod OnLogs
pub mod Owned
pub mod Private
pub mod Replies
pub mod Report
