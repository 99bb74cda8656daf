pub mod Tables
pub mod Declarations
pub mod Units
