pub mod BasisAnchor
pub mod Levels
