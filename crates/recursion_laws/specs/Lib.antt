pub mod Functions
pub mod Promises
