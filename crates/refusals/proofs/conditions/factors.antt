pub mod Scan
pub mod Uppers
