pub mod Once
pub mod Joining
