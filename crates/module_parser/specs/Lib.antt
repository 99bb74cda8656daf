pub mod Answers
pub mod Functors
pub mod Laws
pub mod Parsing
pub mod StrLevels
pub mod Structures
pub mod Units
