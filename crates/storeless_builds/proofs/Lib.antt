pub mod Leaving
pub mod Planned
