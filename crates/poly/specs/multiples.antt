pub mod Packable
