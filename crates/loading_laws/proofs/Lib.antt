pub mod Alike
pub mod Outside
