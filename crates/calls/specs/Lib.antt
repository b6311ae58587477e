pub mod Nights
pub mod Numbered
pub mod Events
pub mod Promises
pub mod Theorems
