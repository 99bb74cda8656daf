pub mod Binding
pub mod Listing
