pub mod continuation
