pub mod Rows
pub mod Convolution
pub mod Growing
pub mod Zeros
