pub mod Pages
pub mod Reasons
