pub mod SetWay
pub mod Powered
pub mod Given
