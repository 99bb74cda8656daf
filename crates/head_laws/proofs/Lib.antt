pub mod Passing
pub mod TyPassing
pub mod PatPassing
pub mod Limits
pub mod Algebra
pub mod Lexemes
pub mod Parens
pub mod Heads
