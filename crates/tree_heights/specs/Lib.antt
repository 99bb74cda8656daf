pub mod FullExpHeights
pub mod FullHeights
pub mod FullSigHeights
pub mod FullUnitHeights
pub mod Heights
pub mod NodeHeights
