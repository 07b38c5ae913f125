pub mod Cycles
pub mod Heard
