pub mod Multiples
pub mod Repeating
pub mod Raising
