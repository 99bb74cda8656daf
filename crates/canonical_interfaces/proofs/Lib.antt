pub mod Places
pub mod Types
pub mod Envs
pub mod Numbers
pub mod Binders
pub mod Written
