pub mod Refused
pub mod Nights
pub mod Found
pub mod Wraps
pub mod Called
