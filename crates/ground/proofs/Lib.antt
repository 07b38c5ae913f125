pub mod Known
pub mod Rows
pub mod Tests
pub mod Verdicts
