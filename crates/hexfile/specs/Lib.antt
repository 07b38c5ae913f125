pub mod Pairs
pub mod Promises
pub mod Parts
