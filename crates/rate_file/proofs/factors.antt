pub mod Turns
pub mod Places
pub mod Polynomials
