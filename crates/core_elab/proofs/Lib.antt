pub mod Beginning
pub mod Inside
pub mod Vals
