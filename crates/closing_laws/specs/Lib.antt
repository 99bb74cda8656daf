pub mod Variables
pub mod Promises
