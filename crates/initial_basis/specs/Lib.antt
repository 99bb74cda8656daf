pub mod Table
pub mod Phrases
pub mod Basis
