pub mod NameSteps
pub mod Steps
