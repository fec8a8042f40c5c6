pub mod kind
pub mod framing
pub mod payload
pub mod mode
pub mod walk
pub mod reader
