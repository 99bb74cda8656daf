pub mod Scopes
pub mod Steps
