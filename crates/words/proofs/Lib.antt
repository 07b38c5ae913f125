pub mod AtWords
pub mod WordLaws
