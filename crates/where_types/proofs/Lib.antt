pub mod TypeFunctions
pub mod Wheres
pub mod Names
pub mod Checking
