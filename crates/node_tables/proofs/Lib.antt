pub mod Apart
pub mod Adding
