pub mod Faults
pub mod GoodStore
pub mod Laws
pub mod Paths
pub mod Stored
pub mod Whole
