pub mod Wrap
pub mod Address
pub mod Counter
pub mod Shift
pub mod Theorems
