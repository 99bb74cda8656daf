pub mod Earliest
pub mod Found
pub mod FoundDecs
pub mod FoundSigs
pub mod FoundStrs
