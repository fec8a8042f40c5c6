pub mod Totals
pub mod Pairs
pub mod Products
