pub mod Scopes
pub mod Bindings
pub mod Units
pub mod Spelt
pub mod Promised
