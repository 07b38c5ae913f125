pub mod Passing
pub mod Copies
pub mod Reporting
