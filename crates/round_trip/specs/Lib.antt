pub mod Words
pub mod Sound
pub mod RoundTrip
