pub mod Unfolding
pub mod Growing
pub mod Keeping
pub mod Setting
pub mod Looking
pub mod Making
