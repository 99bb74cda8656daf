pub mod Exceptions
