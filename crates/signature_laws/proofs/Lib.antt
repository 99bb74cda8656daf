pub mod Tables
pub mod Alone
pub mod Standing
pub mod Datatypes
pub mod Signatures
pub mod Units
pub mod Occurring
