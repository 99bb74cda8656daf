pub mod Marked
pub mod Formed
