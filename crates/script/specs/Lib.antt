pub mod Answers
pub mod Lines
pub mod Scripts
pub mod Held
