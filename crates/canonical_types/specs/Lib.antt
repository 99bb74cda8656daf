pub mod Orders
pub mod Variables
pub mod Canonicals
