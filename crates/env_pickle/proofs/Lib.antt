pub mod Marking
pub mod Fairness
