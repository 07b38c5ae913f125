-- Laws of what every state from power-up keeps.
pub mod Acknowledges
pub mod Falls
pub mod Steps
pub mod Talks
