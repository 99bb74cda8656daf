pub mod Parts
pub mod Replicas
pub mod Steps
