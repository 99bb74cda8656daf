pub mod Tops
pub mod Units
