pub mod Tested
pub mod Taken
pub mod Exactly
pub mod Refused
pub mod Singly
pub mod Parts
pub mod InRange
pub mod Settled
