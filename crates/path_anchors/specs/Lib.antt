pub mod Laws
pub mod Names
pub mod Pathconfig
pub mod Tables
