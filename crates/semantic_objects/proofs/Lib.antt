pub mod Same
pub mod Unfolding
pub mod Adding
pub mod Sorting
pub mod Promised
