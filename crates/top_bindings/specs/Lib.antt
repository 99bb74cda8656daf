pub mod Ready
pub mod Bindings
