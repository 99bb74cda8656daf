pub mod Derived
pub mod Promises
