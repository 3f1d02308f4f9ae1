-- Patches rewritten as JSON Patches.
pub mod AnyOrder
pub mod ChangedPath
pub mod Computed
pub mod EditPlaces
pub mod Guards
pub mod SomeRewriting
pub mod Steps
pub mod Unique
pub mod Walk
pub mod Within
