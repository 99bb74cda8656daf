pub mod CoreLets
pub mod Refusals
