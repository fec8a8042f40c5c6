pub mod Maximum
pub mod Coefficients
