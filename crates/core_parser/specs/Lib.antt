pub mod Answers
pub mod Cursors
