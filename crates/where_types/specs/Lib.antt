pub mod Where
