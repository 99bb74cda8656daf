pub mod Asked
pub mod Skeletons
pub mod Told
