pub mod Part
pub mod Memory
pub mod Answers
pub mod Result
pub mod Told
pub mod Theorems
