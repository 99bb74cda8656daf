pub mod Declaring
pub mod Promises
