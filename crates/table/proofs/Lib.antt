pub mod Columns
pub mod Turns
pub mod Answered
pub mod Outcomes
pub mod Example
