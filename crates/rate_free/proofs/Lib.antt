pub mod FreeAnswer
