pub mod Clash
pub mod Map
pub mod Found
pub mod Words
pub mod Operation
pub mod Stops
pub mod Signed
