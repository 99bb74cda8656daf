pub mod Steps
pub mod Behind
pub mod Importing
pub mod Exporting
pub mod Naming
pub mod Laws
