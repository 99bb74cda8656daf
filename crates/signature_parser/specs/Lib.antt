pub mod Bound
pub mod Joined
pub mod Rounds
pub mod SigLevels
pub mod Signatures
pub mod Specifications
