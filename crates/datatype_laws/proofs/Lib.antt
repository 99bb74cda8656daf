pub mod Settling
pub mod New
pub mod Datatypes
pub mod Below
