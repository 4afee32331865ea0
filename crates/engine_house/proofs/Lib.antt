pub mod Values
pub mod Items
pub mod Form
pub mod Store
pub mod Answers
pub mod Written
pub mod Again
