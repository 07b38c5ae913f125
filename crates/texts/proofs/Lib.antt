pub mod Decimal
pub mod Starting
pub mod Alike
