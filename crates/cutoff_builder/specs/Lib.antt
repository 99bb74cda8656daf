pub mod Answers
pub mod Doing
pub mod Planning
pub mod Theorem
pub mod Small
