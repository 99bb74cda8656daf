pub mod Deriving
pub mod Faults
pub mod Toolboxes
