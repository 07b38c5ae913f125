pub mod CountLaws
pub mod Kept
pub mod Turns
pub mod PlainLaws
