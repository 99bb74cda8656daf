pub mod Args
pub mod Lists
pub mod Split
