pub mod Giving
pub mod Good
pub mod Naming
pub mod Uses
