pub mod Tabled
pub mod Valued
pub mod Placing
pub mod Enving
pub mod Staying
pub mod Formed
