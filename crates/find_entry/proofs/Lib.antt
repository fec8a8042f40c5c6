pub mod Unpacking
pub mod Looking
pub mod Entries
pub mod Call
