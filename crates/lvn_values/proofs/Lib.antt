pub mod Entries
pub mod Search
pub mod Held
pub mod Numbers
