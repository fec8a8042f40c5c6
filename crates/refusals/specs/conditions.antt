pub mod factors
pub mod lists
