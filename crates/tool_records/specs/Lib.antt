pub mod Laws
pub mod Reading
pub mod Stored
pub mod Took
