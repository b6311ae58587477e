pub mod Ranged
pub mod Settled
