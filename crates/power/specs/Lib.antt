pub mod Power
pub mod Promises
