pub mod Buffer
pub mod Put
pub mod Lists
