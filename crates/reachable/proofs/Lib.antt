pub mod Holds
pub mod Kept
pub mod Reachable
