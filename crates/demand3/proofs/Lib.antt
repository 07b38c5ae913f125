pub mod Asked
pub mod Demand3
pub mod Sent
