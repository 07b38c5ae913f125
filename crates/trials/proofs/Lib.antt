pub mod Repeats
pub mod Trying
