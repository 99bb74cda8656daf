pub mod Names
pub mod Tops
pub mod Restored
pub mod Promises
