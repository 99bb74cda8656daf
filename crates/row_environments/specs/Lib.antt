pub mod Placed
pub mod Answers
