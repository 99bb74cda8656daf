pub mod Listing
pub mod Changing
pub mod Realising
pub mod Promised
