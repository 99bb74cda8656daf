pub mod Elsewhere
pub mod GoodAfter
pub mod Parts
pub mod PathLaws
pub mod StoredBins
pub mod StoredLaws
pub mod StoreLaws
