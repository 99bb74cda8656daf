pub mod Groups
pub mod Closings
pub mod OwnVariables
pub mod Recursive
pub mod Under
pub mod Promises
