pub mod Bundled
pub mod Embedding
pub mod Lines
pub mod Rules
