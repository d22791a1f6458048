pub mod Count
pub mod Inspect
