pub mod Number
pub mod Excess
pub mod Digits
