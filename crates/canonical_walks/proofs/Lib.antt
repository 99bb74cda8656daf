pub mod Binding
pub mod Canons
pub mod Topped
