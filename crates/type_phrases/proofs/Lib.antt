pub mod Standing
pub mod Keeping
pub mod Records
pub mod Steps
pub mod Dotting
pub mod PartsRead
