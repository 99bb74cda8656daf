pub mod Tables
pub mod Scoping
pub mod Opening
pub mod Pathing
