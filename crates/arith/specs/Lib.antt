pub mod Represented
pub mod Inverse
pub mod Slices
pub mod prime_field
pub mod extension
pub mod multiples
pub mod sums
pub mod products
