pub mod Rows
pub mod Lengths
pub mod Promise
pub mod Settled
pub mod Theorems
