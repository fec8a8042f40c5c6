pub mod FileFactor
