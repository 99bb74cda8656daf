pub mod Specs
pub mod Variables
pub mod Steps
pub mod Types
