pub mod Bench
pub mod State
