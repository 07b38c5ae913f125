pub mod Transfers
pub mod Promises
