pub mod Parts
pub mod Types
pub mod Bindings
pub mod Signatures
pub mod SigPassing
pub mod Trees
pub mod Whole
pub mod Include
