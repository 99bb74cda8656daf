pub mod Decs
pub mod Exps
pub mod Heads
pub mod Keeping
pub mod Pats
pub mod Strs
pub mod Units
