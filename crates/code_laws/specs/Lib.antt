pub mod Plain
pub mod Constants
pub mod Promises
