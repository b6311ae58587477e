pub mod Reader
pub mod Theorems
