pub mod Unfolding
pub mod Later
pub mod Entering
pub mod Instances
