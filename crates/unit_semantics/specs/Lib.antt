pub mod UnitPhrases
pub mod StructureInference
pub mod UnitInference
pub mod ElaboratesUnits
pub mod Promises
