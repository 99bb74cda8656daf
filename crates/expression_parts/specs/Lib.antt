pub mod ExpNodes
pub mod ExpStarts
