pub mod BoundSteps
pub mod SigSteps
