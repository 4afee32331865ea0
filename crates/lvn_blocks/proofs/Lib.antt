pub mod Accepted
pub mod Lines
pub mod Turned
pub mod Blocks
pub mod Heads
pub mod Whole
