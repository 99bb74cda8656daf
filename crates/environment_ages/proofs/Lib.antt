pub mod Holding
pub mod Rows
pub mod Walking
pub mod OfState
