pub mod Flagged
pub mod Live
pub mod Retaining
