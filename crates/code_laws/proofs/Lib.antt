pub mod Fitting
pub mod Lists
pub mod Types
pub mod Patterns
pub mod Signatures
pub mod Expressions
pub mod Both
pub mod Units
