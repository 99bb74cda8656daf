pub mod CutBuild
pub mod Inputs
pub mod Left
pub mod PlainBuild
pub mod Planned
pub mod Stale
pub mod Storing
