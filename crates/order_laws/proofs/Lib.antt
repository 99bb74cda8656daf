pub mod Orders
pub mod Ways
pub mod Cycles
pub mod Values
