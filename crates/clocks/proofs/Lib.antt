pub mod Going
pub mod Counting
pub mod Seeing
pub mod Timing
pub mod Turning
pub mod Standing
pub mod Clocking
pub mod Arms
