pub mod State
pub mod Taken
pub mod Theorems
