pub mod Picture
pub mod Answers
pub mod Theorems
