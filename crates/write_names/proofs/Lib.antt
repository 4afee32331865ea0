pub mod Laws
pub mod Copied
pub mod Sizes
