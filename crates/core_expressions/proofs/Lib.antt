pub mod DecSteps
pub mod ExpSteps
pub mod ValSteps
