pub mod AtPaper
pub mod Door
pub mod Numbered
pub mod Operations
pub mod Tidied
pub mod Trips
pub mod Images
