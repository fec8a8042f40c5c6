pub mod Cuts
pub mod Responding
