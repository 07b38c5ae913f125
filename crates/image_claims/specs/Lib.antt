pub mod Trip
pub mod Images
pub mod AtPaper
