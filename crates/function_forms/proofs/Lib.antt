pub mod Places
pub mod Marking
pub mod Naming
