pub mod Bindings
pub mod Derived
pub mod ExpForms
pub mod StrForms
