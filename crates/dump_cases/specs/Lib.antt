pub mod Cases
pub mod Least
