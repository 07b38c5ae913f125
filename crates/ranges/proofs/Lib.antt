pub mod InRange
pub mod Signs
pub mod Times
