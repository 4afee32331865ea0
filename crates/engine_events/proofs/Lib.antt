pub mod Operands
pub mod Events
pub mod Answers
pub mod Over
pub mod Replies
pub mod Steps
