pub mod Tests
pub mod Powers
