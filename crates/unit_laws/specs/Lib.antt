pub mod Spelling
pub mod Parts
pub mod Naming
pub mod Promises
