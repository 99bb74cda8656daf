pub mod Needing
pub mod Taking
