pub mod Compiled
pub mod Promises
pub mod Steps
pub mod Kept
