-- Where two patches clash, and the pair that is reported of a list.
pub mod ByName
pub mod Conflicts
pub mod Exchange
pub mod FirstOf
pub mod Reported
pub mod ReportedPair
