pub mod Phrases
pub mod PhraseOf
