pub mod Providers
pub mod ShortImports
pub mod Graphs
pub mod Planned
pub mod Steps
