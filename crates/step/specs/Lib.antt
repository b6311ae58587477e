pub mod Data
pub mod Step
pub mod Acted
pub mod Theorems
