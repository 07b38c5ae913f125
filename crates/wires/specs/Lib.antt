pub mod Wires
pub mod Times
pub mod Values
