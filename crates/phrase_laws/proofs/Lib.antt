pub mod Finding
pub mod Types
pub mod Steps
pub mod Patterns
pub mod TypeBindings
pub mod Declarations
pub mod Promised
