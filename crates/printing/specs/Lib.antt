pub mod words
pub mod result_line
