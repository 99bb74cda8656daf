pub mod Choosing
pub mod DescribedOnce
pub mod Numbered
