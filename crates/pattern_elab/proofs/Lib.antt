pub mod Stepping
pub mod Binding
pub mod Forms
pub mod Scoping
pub mod Joins
pub mod Fields
pub mod Done
