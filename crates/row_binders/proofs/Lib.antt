pub mod Numbered
pub mod Bound
