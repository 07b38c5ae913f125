pub mod Differ
pub mod Sending
