pub mod Walking
pub mod Sizing
pub mod Meeting
pub mod Nesting
