pub mod States
pub mod Matched
pub mod Parts
pub mod Modules
pub mod Promised
