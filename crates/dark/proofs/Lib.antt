pub mod Darkness
