pub mod Mapped
pub mod Told
pub mod Ordered
pub mod OneScheme
