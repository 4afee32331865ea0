pub mod Ends
pub mod Follows
pub mod Tables
