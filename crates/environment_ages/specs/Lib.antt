pub mod Below
pub mod TypeSteps
pub mod Walking
