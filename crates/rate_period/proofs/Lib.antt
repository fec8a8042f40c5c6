pub mod Answer
pub mod PeriodAnswer
pub mod Given
