pub mod Placing
pub mod Using
pub mod Following
pub mod Standing
