pub mod Calls
pub mod FromNothing
pub mod Histories
pub mod Laws
