pub mod Called
pub mod Promises
pub mod Theorems
