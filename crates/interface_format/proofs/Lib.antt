pub mod Examples
pub mod Told
pub mod Types
pub mod Entries
pub mod Environments
pub mod Shapes
pub mod Once
