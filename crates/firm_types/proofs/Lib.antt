pub mod Firm
