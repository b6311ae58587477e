pub mod Log
pub mod Refusals
pub mod Panel
pub mod Promises
