pub mod Rising
pub mod Promises
