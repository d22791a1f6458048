pub mod Digits
pub mod Folding
pub mod Fronts
