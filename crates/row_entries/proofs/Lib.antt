pub mod Numbered
pub mod Among
pub mod Found
pub mod Cons
pub mod Adding
