pub mod LastDigits
pub mod Signs
pub mod Formulas
pub mod Lengths
pub mod Nearest
