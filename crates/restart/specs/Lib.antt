pub mod Writes
pub mod Compared
pub mod Statement
pub mod Polling
pub mod Examples
