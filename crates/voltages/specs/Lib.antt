pub mod Voltages
pub mod Answers
pub mod Theorems
