pub mod Tables
pub mod Images
pub mod Replaced
