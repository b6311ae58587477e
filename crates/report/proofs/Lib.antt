pub mod Parts
pub mod Outcomes
pub mod Reported
pub mod Front
pub mod Settled
pub mod Example
