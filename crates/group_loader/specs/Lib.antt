pub mod Answers
pub mod Laws
pub mod Loading
pub mod Makers
