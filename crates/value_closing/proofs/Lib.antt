pub mod Closings
pub mod Entering
pub mod Staying
pub mod Grouping
pub mod RecPats
pub mod Bounding
