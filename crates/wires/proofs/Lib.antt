pub mod WireLaws
pub mod LaidBits
