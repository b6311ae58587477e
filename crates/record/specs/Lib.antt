pub mod Event
pub mod Record
pub mod Place
pub mod Reading
pub mod Theorems
