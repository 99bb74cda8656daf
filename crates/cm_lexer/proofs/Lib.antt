pub mod Comments
pub mod Fitting
pub mod Steps
pub mod Spelled
pub mod Slices
pub mod Scanning
pub mod Written
