pub mod Accepted
pub mod frobenius
pub mod binary
pub mod BenOr
