pub mod Lent
pub mod Passing
pub mod Inverting
pub mod Reducing
