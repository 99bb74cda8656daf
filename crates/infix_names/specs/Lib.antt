pub mod Fixities
pub mod FixityTables
pub mod Operators
