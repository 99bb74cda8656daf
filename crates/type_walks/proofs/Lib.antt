pub mod Keys
pub mod Imaging
pub mod Putting
