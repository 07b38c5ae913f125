pub mod Tests
pub mod Texts
pub mod Cells
pub mod Heeded
pub mod Written
pub mod RowsBack
pub mod WrittenBack
pub mod RoundTrip
