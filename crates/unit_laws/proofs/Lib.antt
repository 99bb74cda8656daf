pub mod Realised
pub mod Naming
pub mod SignaturesMade
pub mod Matched
pub mod ModulesMade
pub mod UnitsMade
pub mod Promised
pub mod Named
