pub mod Row
pub mod Drawing
pub mod Promises
pub mod Answers
pub mod Theorems
