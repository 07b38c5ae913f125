pub mod RunCases
