pub mod Stops
pub mod Sampled
pub mod Runs
