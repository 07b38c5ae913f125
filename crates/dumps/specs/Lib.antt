pub mod Reading
pub mod Defined
pub mod Samples
pub mod Faults
