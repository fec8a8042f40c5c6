pub mod Halving
pub mod Alone
pub mod Parts
