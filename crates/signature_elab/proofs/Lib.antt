pub mod Forms
pub mod Chaining
pub mod Ending
pub mod Beginning
pub mod Ruled
