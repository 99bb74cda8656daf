pub mod Mapping
pub mod Closing
pub mod Firmness
pub mod FirmPhrases
