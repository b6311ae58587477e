pub mod Left
pub mod Again
pub mod Settled
