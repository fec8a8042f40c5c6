pub mod Remaindered
pub mod Suited
pub mod Orderly
pub mod binary
