pub mod Rounds
pub mod Trial
pub mod Case
