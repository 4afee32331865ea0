pub mod Machine
pub mod Reached
pub mod Opened
pub mod Examples
pub mod ReachedRuns
pub mod Runs
