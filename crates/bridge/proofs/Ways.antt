pub mod Precedence
pub mod Fitting
pub mod PowerSearch
pub mod Portions
pub mod Periods
pub mod Accepted
