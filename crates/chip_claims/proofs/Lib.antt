pub mod CutStops
pub mod AtRuns
pub mod Derived
pub mod Chip
