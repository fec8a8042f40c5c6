pub mod Cycles
pub mod Summing
pub mod Stored
