pub mod Cells
pub mod Promises
