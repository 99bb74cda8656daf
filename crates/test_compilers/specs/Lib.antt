pub mod LetterSources
pub mod MarkedSources
pub mod SeamedSources
pub mod LetterSkeletons
