pub mod Agreeing
pub mod Units
pub mod Reading
pub mod Back
