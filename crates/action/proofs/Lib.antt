pub mod Blocks
pub mod Powers
