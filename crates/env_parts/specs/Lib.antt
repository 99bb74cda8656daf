pub mod Types
pub mod TypeSteps
