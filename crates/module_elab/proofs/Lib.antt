pub mod Turns
pub mod Lasting
pub mod Defining
pub mod Declared
pub mod Alone
pub mod Starting
pub mod Giving
