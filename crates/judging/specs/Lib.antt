pub mod Promises
pub mod Parts
pub mod Kept
