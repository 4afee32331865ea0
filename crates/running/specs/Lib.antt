pub mod Steps
pub mod House
pub mod Engine
pub mod Items
pub mod Program
pub mod Opened
pub mod Calls
pub mod Runs
