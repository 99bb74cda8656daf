pub mod Copying
pub mod Becoming
pub mod Staying
pub mod Leaving
