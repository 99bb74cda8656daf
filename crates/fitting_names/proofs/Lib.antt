pub mod Nodes
pub mod PatForms
pub mod Runs
pub mod SigForms
pub mod Texts
pub mod TyForms
