pub mod Decs
pub mod Heads
pub mod Sigs
pub mod Strs
pub mod Units
