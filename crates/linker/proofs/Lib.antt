mod Earlier
mod Exact
mod Programs
pub mod Spelled
