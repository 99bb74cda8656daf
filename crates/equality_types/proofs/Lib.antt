pub mod Fallen
