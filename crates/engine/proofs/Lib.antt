pub mod Accepted
pub mod Begun
pub mod Ended
pub mod Runs
pub mod Answers
