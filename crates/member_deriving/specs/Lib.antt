pub mod Classes
pub mod Faults
pub mod Laws
pub mod Sources
pub mod Uses
