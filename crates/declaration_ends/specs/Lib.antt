pub mod Leaving
pub mod Sizes
pub mod Structures
