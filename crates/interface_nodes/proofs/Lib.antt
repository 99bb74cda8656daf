pub mod Contents
pub mod Imaging
pub mod Entering
