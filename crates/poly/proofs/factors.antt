pub mod Capped
pub mod Totals
