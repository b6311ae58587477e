pub mod Left
pub mod Placed
pub mod Returned
pub mod Lists
pub mod Front
