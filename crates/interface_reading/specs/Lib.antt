pub mod Laws
pub mod Meeting
pub mod Needs
pub mod Open
pub mod Unbounded
pub mod Remaining
pub mod Weights
pub mod Rows
