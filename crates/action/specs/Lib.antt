pub mod power_action
