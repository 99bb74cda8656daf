pub mod Chains
pub mod Readying
pub mod Entering
pub mod Steps
pub mod Sealing
pub mod Binding
pub mod Joining
