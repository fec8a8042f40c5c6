pub mod Ratings
