pub mod Views
pub mod Steps
pub mod Arguments
pub mod Saves
pub mod Itself
pub mod Room
pub mod Seen
pub mod Dest
