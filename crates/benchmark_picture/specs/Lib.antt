pub mod Drawn
pub mod Theorems
