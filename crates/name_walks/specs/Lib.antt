pub mod Noting
pub mod Visits
pub mod Places
