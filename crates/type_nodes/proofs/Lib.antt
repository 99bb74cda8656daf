pub mod Making
pub mod Knowing
pub mod Playing
pub mod Binding
pub mod Histories
pub mod Cells
pub mod Stamps
pub mod Ways
