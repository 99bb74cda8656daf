pub mod Applied
pub mod Reading
