pub mod Rows
pub mod Readying
pub mod Sorts
pub mod Bodies
