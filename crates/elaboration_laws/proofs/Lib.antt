pub mod Expressions
pub mod Core
pub mod Bindings
pub mod Vals
pub mod Own
pub mod Behind
pub mod Apart
pub mod Promised
