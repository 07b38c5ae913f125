pub mod Intel
pub mod Parts
