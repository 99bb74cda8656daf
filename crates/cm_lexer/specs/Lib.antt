pub mod Bytes
pub mod Points
pub mod Pieces
pub mod Tokens
pub mod Spelling
