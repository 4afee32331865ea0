pub mod Turn
pub mod Replies
