pub mod Forms
pub mod Alike
pub mod Values
pub mod Placed
