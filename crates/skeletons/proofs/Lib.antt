pub mod Chains
pub mod Counts
pub mod FirstLemmas
pub mod Forms
pub mod Placing
