pub mod Numbers
pub mod Rings
pub mod Polynomials
pub mod FiniteFields
pub mod Sequences
