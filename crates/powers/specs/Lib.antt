pub mod levels
pub mod digit_search
pub mod product
