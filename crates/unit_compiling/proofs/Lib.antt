pub mod Small
pub mod Sources
