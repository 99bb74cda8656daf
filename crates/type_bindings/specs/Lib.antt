pub mod Listing
pub mod Replicas
