pub mod Signatures
pub mod Nodes
pub mod Phrases
pub mod Units
