pub mod Items
pub mod Rising
pub mod Closed
pub mod Nodes
pub mod Tops
pub mod Joining
pub mod Promised
