pub mod Wires
pub mod Header
pub mod Drawing
