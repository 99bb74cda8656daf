pub mod Instances
pub mod Schemes
pub mod Heads
pub mod Reaching
pub mod Numbering
pub mod Keys
pub mod Flattening
pub mod Ages
