pub mod CutStops
pub mod Demand3
pub mod States
pub mod AtRuns
