pub mod Transfer
pub mod Events
pub mod Refusals
pub mod Written
pub mod Rules
pub mod Theorems
