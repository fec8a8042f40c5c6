pub mod Splitting
pub mod Packing
