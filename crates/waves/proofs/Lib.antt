pub mod Lengths
pub mod SlaveBytes
