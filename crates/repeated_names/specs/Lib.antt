pub mod Finding
pub mod RepeatedDecs
pub mod RepeatedTypes
pub mod RepeatedUnits
pub mod Repeats
