pub mod Nodes
pub mod DerivedNodes
pub mod Core
pub mod Structures
pub mod Units
