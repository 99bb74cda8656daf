pub mod Answers
pub mod Linked
pub mod Programs
pub mod Reading
pub mod Spelling
