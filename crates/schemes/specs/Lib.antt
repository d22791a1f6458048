pub mod Number
pub mod Strength
pub mod Bytes
pub mod Depth
pub mod Lawful
