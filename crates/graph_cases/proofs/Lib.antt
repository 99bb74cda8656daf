pub mod Binding
pub mod Having
