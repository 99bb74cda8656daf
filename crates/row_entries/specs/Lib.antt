pub mod Variables
pub mod Told
