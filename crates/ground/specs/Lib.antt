pub mod Numbers
pub mod Cases
pub mod Kind
pub mod Verdict
pub mod Size
