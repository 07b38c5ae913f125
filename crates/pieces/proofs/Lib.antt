pub mod Turns
pub mod Filling
pub mod Reading
pub mod PieceLaws
pub mod Plain
