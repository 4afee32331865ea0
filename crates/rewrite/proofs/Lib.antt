pub mod Parts
pub mod Known
pub mod Answers
