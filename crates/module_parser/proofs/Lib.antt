pub mod StrSteps
pub mod TopSteps
pub mod UnitLaws
