pub mod Fitting
pub mod Format
pub mod Laws
pub mod Reading
pub mod Took
