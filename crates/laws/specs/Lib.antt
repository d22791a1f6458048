pub mod Concerned
pub mod Order
pub mod Reference
pub mod Runs
