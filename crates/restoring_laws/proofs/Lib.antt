pub mod Reading
pub mod Numbered
