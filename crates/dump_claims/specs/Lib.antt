pub mod Refusals
pub mod OneOutcome
pub mod Pieces
pub mod Written
