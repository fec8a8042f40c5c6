pub mod Shortest
pub mod step
pub mod words
pub mod binary
