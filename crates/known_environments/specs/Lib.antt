pub mod Known
pub mod Copies
pub mod Grows
