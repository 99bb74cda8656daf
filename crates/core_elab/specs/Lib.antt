pub mod Inside
pub mod Patterns
pub mod Vals
