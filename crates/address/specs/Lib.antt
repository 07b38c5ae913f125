pub mod Talk
pub mod Address
