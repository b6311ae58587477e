pub mod Put
pub mod Calls
pub mod Settled
