pub mod BenchCases
pub mod Demand1
pub mod OneReply
pub mod SomeReply
pub mod AtInputs
pub mod Claims
