pub mod Aligning
pub mod Standing
pub mod Turning
