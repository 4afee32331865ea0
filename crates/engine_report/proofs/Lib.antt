pub mod Head
pub mod Shown
