pub mod Boxes
pub mod Runs
pub mod Truth
