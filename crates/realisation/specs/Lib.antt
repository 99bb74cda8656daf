pub mod Names
pub mod Environments
pub mod Realised
pub mod Canonical
pub mod Promises
