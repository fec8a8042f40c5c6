pub mod common_divisor
pub mod convolution
pub mod products
pub mod raising
pub mod division
pub mod residues
pub mod factors
pub mod multiples
