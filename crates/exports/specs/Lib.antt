pub mod ratings
pub mod profile
pub mod status
