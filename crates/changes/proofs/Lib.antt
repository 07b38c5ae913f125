pub mod ChangeLaws
pub mod Meanings
pub mod Fitting
