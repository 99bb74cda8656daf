pub mod FileLemmas
pub mod FrontLemmas
pub mod Held
pub mod KeepingLemmas
pub mod Pushed
