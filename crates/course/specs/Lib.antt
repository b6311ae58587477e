pub mod Words
pub mod Course
pub mod Promises
pub mod Theorems
