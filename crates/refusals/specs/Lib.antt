pub mod Verdicts
pub mod conditions
