pub mod Longer
pub mod ReadBack
pub mod ReaderGivesBack
