pub mod FaultLaws
pub mod TableLaws
pub mod Walks
pub mod Seeks
pub mod Judged
pub mod Stands
