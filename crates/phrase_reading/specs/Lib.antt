pub mod Names
pub mod Reads
pub mod Refusals
pub mod Sized
pub mod Words
