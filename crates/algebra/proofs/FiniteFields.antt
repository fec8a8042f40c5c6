pub mod PrimeField
pub mod FiniteField
pub mod Order
pub mod BenOr
pub mod Raised
pub mod Extension
