pub mod Records
pub mod WrittenFactors
pub mod FileRatings
