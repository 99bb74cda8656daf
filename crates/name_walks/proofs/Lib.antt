pub mod Notes
pub mod Once
pub mod Meeting
pub mod Visiting
pub mod Going
