pub mod Numbers
pub mod Stores
pub mod Terms
pub mod Factors
