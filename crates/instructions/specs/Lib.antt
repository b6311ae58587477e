pub mod Instructions
pub mod Theorems
