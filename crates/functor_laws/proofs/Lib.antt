pub mod Occurring
pub mod Pairs
pub mod Nodes
pub mod Results
pub mod Units
