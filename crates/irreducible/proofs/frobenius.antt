pub mod Filling
pub mod Summing
pub mod Keeping
