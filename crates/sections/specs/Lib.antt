pub mod Spelling
pub mod Sections
