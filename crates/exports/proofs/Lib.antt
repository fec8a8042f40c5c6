pub mod Exported
pub mod Records
