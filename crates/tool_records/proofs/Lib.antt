pub mod Finding
pub mod Paths
pub mod Records
pub mod Sizes
pub mod Storing
