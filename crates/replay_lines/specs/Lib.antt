pub mod Counts
pub mod Decimal
pub mod Filled
