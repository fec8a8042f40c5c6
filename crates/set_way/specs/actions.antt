pub mod SetActions
