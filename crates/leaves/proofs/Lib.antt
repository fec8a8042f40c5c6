pub mod Remaindering
pub mod Suiting
pub mod Repeating
pub mod Orders
