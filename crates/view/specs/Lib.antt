pub mod Words
pub mod View
pub mod Theorems
