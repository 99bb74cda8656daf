pub mod Bindings
pub mod Decs
