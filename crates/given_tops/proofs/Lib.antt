pub mod Looping
pub mod Holding
pub mod Constructors
pub mod Rows
pub mod Walking
pub mod Bound
pub mod Conditions
pub mod Knowing
