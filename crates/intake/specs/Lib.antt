pub mod Ending
pub mod Refused
pub mod Start
