pub mod ExpForms
pub mod ExpNodes
pub mod PatForms
pub mod Runs
pub mod StrForms
