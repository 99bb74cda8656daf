pub mod Finding
pub mod Exactly
