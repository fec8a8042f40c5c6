pub mod Keeping
pub mod Steps
