pub mod Elements
pub mod Planes
pub mod Powers
pub mod Sums
