pub mod Deciding
pub mod Conditions
pub mod Contents
pub mod Tops
