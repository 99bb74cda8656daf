pub mod CapitalSources
