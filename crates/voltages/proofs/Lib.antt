pub mod Operations
pub mod Exact
pub mod Rounded
pub mod Near
pub mod Ladder
pub mod Answers
pub mod Example
