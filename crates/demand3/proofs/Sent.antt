-- Laws of two parts whose arrays differ at one address, and of one part on its own.
pub mod SentBits
pub mod OneSample
pub mod Reached
pub mod TwoArrays
pub mod Shown
pub mod OneByte
