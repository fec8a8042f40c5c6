pub mod Suited
pub mod Modes
pub mod Rates
pub mod Terms
