pub mod Shapes
pub mod Envs
pub mod Names
pub mod Units
