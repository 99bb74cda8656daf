pub mod Ordering
pub mod Mapping
pub mod Changes
pub mod Owning
