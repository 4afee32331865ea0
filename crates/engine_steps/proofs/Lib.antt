pub mod Events
pub mod Came
