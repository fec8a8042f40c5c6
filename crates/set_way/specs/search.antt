pub mod SetSearch
