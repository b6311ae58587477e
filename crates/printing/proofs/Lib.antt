pub mod Printed
pub mod Settled
