pub mod Answers
pub mod Buildable
pub mod Laws
pub mod Planning
