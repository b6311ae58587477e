pub mod Digit
pub mod Stretches
pub mod Dots
pub mod Promises
