pub mod Rows
pub mod Again
