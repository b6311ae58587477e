pub mod Written
pub mod Theorems
