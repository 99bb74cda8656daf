pub mod Taking
pub mod Owning
pub mod Listing
