pub mod Fields
pub mod Hashes
pub mod Items
