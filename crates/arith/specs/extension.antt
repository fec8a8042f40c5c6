pub mod Extension
pub mod Planes
