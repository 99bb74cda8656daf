pub mod Choices
pub mod Falling
