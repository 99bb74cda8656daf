pub mod Declaring
pub mod Derived
pub mod Promises
