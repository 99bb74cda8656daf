pub mod Contents
pub mod Conditions
pub mod Tops
pub mod Promises
