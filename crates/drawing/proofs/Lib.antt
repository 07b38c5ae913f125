pub mod Laid
pub mod Starting
pub mod Times
