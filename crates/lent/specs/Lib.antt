pub mod blocks
pub mod sums
pub mod halves
pub mod raising
