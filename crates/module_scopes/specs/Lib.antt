pub mod Tops
pub mod Stays
pub mod Places
