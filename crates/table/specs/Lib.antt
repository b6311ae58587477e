pub mod Table
pub mod Promises
pub mod Theorems
