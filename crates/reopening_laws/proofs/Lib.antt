pub mod Reopening
pub mod Keeping
pub mod Closing
pub mod Schemes
pub mod Around
pub mod Promised
