pub mod Tokens
pub mod Parts
