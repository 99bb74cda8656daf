pub mod Schemes
pub mod Entries
pub mod Names
pub mod Tops
