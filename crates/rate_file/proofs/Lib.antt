pub mod Accepted
pub mod Ratings
