pub mod Op
pub mod Literal
