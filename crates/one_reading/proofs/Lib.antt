pub mod Tracks
pub mod Refused
pub mod Hearing
pub mod Beginning
pub mod Running
pub mod Pieces
