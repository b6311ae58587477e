pub mod Decimals
pub mod Promises
pub mod Theorems
