pub mod Occurs
pub mod Under
