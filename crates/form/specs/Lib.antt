pub mod Fields
pub mod Further
pub mod Header
pub mod Words
