pub mod Sample
pub mod Promises
pub mod Run
