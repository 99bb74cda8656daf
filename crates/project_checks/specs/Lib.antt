pub mod Assembly
pub mod Checks
pub mod Loaded
pub mod Owners
pub mod Owning
pub mod Whole
