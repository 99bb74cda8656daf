pub mod Below
pub mod Derived
pub mod Promises
