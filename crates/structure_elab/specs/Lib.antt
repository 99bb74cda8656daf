pub mod Moments
pub mod Ready
pub mod Phrases
