pub mod Clauses
pub mod Declarations
pub mod Expressions
pub mod Level
pub mod Levels
pub mod Values
