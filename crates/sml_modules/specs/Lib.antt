pub mod Items
pub mod Graphs
pub mod Codes
pub mod Nodes
pub mod Adding
