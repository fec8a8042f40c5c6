pub mod Inputs
pub mod Passing
pub mod Loaded
