pub mod Readings
pub mod Starts
