pub mod Nodes
pub mod Facts
pub mod Tables
pub mod Keeping
pub mod Stamps
pub mod Ways
