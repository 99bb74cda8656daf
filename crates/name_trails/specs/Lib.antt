pub mod Trails
pub mod Places
