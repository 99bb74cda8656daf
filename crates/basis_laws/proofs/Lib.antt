pub mod Fine
pub mod Computed
pub mod Whole
pub mod Promised
