pub mod Store
pub mod ByKind
pub mod Values
pub mod Rows
