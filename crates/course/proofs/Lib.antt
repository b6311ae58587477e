pub mod Heard
pub mod Verdicts
pub mod Behind
pub mod Fitting
pub mod Built
pub mod Settled
pub mod Example
