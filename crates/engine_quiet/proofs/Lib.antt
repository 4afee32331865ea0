pub mod Bodies
pub mod Operands
pub mod Forms
pub mod Landing
pub mod Moved
pub mod Branching
pub mod Spots
