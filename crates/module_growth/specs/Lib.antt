pub mod Grown
pub mod Promises
