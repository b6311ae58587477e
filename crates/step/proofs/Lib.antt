pub mod Stored
pub mod Acting
pub mod Joined
