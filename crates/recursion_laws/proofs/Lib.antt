pub mod Forms
pub mod Exps
pub mod Decs
pub mod Structures
pub mod Units
