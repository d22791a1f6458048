pub mod Looseness
pub mod OnlyRoot
