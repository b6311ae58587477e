pub mod Lines
pub mod Promise
pub mod Settled
pub mod Theorems
