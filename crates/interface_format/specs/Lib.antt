pub mod Tags
pub mod Trees
pub mod Rules
pub mod Interfaces
pub mod Examples
pub mod Laws
