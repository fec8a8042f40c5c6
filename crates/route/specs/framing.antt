pub mod Framing
pub mod Iterating
