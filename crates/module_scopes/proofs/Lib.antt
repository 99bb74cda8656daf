pub mod Rows
pub mod Tops
pub mod Listing
