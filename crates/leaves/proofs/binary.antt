pub mod Naming
pub mod Acting
