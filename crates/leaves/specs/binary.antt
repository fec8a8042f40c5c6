pub mod Squares
pub mod Acted
