pub mod Inferred
pub mod Steps
pub mod Dotted
