pub mod Counting
pub mod Scopes
pub mod Skeletons
pub mod Tables
pub mod Uses
pub mod Walks
