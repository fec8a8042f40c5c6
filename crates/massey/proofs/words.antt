pub mod Moving
pub mod Packing
pub mod Searching
