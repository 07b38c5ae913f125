pub mod AtInputs
pub mod Starting
pub mod BenchList
pub mod Demand1
pub mod Numbered
pub mod OneReply
pub mod SomeReply
pub mod Claims
