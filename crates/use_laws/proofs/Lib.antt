pub mod Fresh
pub mod Records
pub mod Turns
