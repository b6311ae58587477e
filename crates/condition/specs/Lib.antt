pub mod First
pub mod Flag
