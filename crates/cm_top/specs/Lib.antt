pub mod Generating
pub mod Headline
pub mod Meaning
pub mod Performing
pub mod Reports
pub mod Sessions
pub mod Ways
