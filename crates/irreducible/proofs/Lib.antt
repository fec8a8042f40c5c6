pub mod Accepted
pub mod Testing
