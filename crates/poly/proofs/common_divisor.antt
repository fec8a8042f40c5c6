pub mod Trimming
pub mod Euclid
