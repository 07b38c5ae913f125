pub mod Numbers
pub mod Refusal
pub mod Laying
pub mod Differences
