pub mod Mend
pub mod Theorems
