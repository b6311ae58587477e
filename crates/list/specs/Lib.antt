pub mod List
pub mod Theorems
