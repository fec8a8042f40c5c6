pub mod Checked
pub mod Outcomes
