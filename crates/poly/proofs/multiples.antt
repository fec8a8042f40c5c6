pub mod MonicMultiples
