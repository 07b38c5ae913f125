pub mod Taken
pub mod Silent
pub mod Inside
pub mod SampleLaws
