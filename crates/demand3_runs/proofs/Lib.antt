pub mod Computed
pub mod Witness
