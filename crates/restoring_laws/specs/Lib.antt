pub mod Promises
pub mod Numbers
