pub mod factors
pub mod modes
pub mod records
