-- Documents that are forms of operations, and those that are not.
pub mod Faults
pub mod Laws
pub mod Needs
pub mod Reading
pub mod SomeForm
pub mod Values
pub mod Writable
