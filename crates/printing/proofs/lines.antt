pub mod FileResults
