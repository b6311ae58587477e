pub mod Halves
pub mod Theorems
