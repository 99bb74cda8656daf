pub mod Fronts
pub mod Specifying
pub mod Listing
pub mod Valuing
pub mod Excepting
pub mod Typing
