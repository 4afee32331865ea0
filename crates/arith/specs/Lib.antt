pub mod Map
pub mod Word
pub mod Value
pub mod Operation
pub mod Code
pub mod Equal
pub mod Opened
pub mod Examples
