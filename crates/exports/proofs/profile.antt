pub mod Entries
pub mod Profiles
