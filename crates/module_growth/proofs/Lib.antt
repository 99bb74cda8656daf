pub mod Signatures
pub mod Closed
pub mod Modules
pub mod Promised
