pub mod Scopes
pub mod Marks
pub mod Codes
pub mod Promises
pub mod Paths
pub mod Opened
pub mod Listed
