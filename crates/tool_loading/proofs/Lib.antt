pub mod Alike
pub mod Levels
pub mod Steps
pub mod Stores
pub mod Without
