pub mod FixitySteps
pub mod FixityTables
pub mod Kept
pub mod OperatorLaws
