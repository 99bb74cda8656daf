pub mod Words
pub mod Constants
pub mod Lexemes
