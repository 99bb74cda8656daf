pub mod Facting
pub mod Tabling
