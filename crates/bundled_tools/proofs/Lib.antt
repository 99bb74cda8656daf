pub mod Embedding
pub mod Lines
pub mod Modules
pub mod Rules
