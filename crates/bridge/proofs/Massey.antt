pub mod Steps
pub mod Bits
pub mod Images
pub mod Answer
pub mod First
pub mod Meters
