pub mod Piecewise
pub mod Turns
pub mod Openings
