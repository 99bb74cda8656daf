pub mod Putting
pub mod Made
pub mod Fresh
pub mod Turning
pub mod Building
pub mod Fronts
pub mod Outside
pub mod Leaving
