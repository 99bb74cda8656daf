pub mod Nodes
pub mod Spelling
pub mod WellFormed
pub mod Naming
pub mod Alike
pub mod Promises
