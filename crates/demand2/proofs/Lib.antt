pub mod Judged
pub mod Cut
pub mod Demand2
