pub mod Searches
pub mod Within
pub mod Narrowing
pub mod Interpretation
pub mod Levels
pub mod Padding
pub mod Bytes
