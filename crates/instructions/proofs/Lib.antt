pub mod Decoded
pub mod Rows
pub mod Settled
