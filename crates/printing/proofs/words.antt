pub mod Decimals
pub mod Joining
