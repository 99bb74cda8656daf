pub mod Rows
pub mod Schemes
pub mod Names
pub mod Envs
pub mod Parts
pub mod Again
pub mod Promised
