pub mod ReadCases
pub mod WatchCases
pub mod LatchCases
pub mod BlockCases
