pub mod Reopening
pub mod Promises
