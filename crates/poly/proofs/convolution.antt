pub mod Convolution
pub mod Between
pub mod Made
pub mod Blocks
