pub mod Binding
pub mod Again
pub mod Adding
pub mod Finishing
pub mod Elaborated
pub mod Opening
