pub mod Words
pub mod Statement
