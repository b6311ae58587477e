pub mod Tests
pub mod Settled
pub mod First
pub mod Flag
