pub mod Rows
pub mod MoreRows
pub mod RuleRows
pub mod Sound
pub mod Unique
pub mod Promised
