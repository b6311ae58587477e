pub mod Back
pub mod Lengths
pub mod Promise
pub mod Theorems
pub mod Settled
