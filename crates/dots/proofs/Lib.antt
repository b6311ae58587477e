pub mod Columns
pub mod Marks
pub mod Dots
pub mod Stretches
