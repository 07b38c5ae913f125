pub mod LockCases
