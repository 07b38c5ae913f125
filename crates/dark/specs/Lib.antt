pub mod Dark
