pub mod ListedSoFar
pub mod Replicating
