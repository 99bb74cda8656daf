pub mod Equals
pub mod Exps
pub mod Keeping
pub mod Named
pub mod Pats
pub mod Tys
