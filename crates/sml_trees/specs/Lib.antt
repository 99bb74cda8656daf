pub mod CoreLets
