pub mod Basics
pub mod Lists
pub mod Binary
pub mod Sequences
pub mod Ways
pub mod Massey
pub mod Files
