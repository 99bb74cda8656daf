pub mod Renumbering
pub mod Promises
