pub mod Factors
pub mod orders
pub mod primes
pub mod shortest
