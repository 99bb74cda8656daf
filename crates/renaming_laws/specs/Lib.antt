pub mod Moved
pub mod Firm
pub mod Promises
