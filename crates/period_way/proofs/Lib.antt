pub mod Periodic
pub mod Sizes
