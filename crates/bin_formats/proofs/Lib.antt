pub mod Finding
pub mod FittingLemmas
pub mod Formats
pub mod Items
pub mod Spelled
pub mod Steps
pub mod Tests
