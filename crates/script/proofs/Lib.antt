pub mod Feeding
pub mod Gradings
pub mod RowTexts
pub mod StepTexts
pub mod Obeying
