pub mod Firsts
pub mod Two
pub mod Leads
pub mod Restarting
pub mod Third
pub mod Polling
pub mod Cases
