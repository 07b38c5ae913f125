pub mod CutCases
pub mod ResetCases
pub mod TalkCases
