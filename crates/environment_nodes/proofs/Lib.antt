pub mod Items
pub mod Placing
pub mod Growing
