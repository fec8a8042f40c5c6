pub mod Order
pub mod Ways
pub mod Settled
pub mod Lent
