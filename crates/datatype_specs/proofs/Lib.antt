pub mod Parting
pub mod Specifying
