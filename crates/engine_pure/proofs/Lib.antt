pub mod Works
pub mod Literals
pub mod Evals
