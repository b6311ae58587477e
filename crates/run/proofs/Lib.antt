pub mod InRange
pub mod Known
pub mod Turns
pub mod Behind
pub mod Sound
pub mod Settled
