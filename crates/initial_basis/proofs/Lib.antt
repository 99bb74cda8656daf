pub mod Rising
pub mod Binding
pub mod Adding
pub mod Splitting
pub mod Lasts
pub mod Places
