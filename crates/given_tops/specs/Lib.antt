pub mod Names
pub mod TypeSteps
pub mod Fitting
pub mod Walking
pub mod Knowing
