pub mod Usable
pub mod Known
pub mod Imported
pub mod Promises
