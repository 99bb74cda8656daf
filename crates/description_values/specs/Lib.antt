pub mod Choice
pub mod Described
