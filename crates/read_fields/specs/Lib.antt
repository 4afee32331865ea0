pub mod Answer
pub mod Opens
pub mod Places
