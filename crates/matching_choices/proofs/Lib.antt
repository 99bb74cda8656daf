pub mod Closed
pub mod Schemes
pub mod Environments
