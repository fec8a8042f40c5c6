pub mod Trying
pub mod Seeking
