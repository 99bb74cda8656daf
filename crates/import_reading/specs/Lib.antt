pub mod Placed
pub mod Restored
pub mod Reading
