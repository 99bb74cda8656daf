pub mod Mapped
pub mod Listing
pub mod Firm
