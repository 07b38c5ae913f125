pub mod Shown
pub mod Promises
