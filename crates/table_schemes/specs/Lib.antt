pub mod Meaning
pub mod Entering
pub mod Using
