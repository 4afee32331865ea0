pub mod Bounds
pub mod Layout
