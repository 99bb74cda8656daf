pub mod Titles
