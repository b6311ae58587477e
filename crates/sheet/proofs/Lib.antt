pub mod Lengths
pub mod Printed
