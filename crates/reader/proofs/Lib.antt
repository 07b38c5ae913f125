pub mod Turns
pub mod Into
