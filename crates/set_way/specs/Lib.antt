pub mod SetWay
pub mod actions
pub mod search
