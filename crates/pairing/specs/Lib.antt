pub mod Demand
pub mod Opened
pub mod Contract
pub mod Wrong
pub mod Rare
pub mod Joint
pub mod Premises
pub mod Progress
