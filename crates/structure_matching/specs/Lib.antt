pub mod Found
pub mod Refusals
pub mod Searching
pub mod Values
pub mod Enriching
pub mod Matches
