pub mod Numbers
pub mod Owners
pub mod Listed
