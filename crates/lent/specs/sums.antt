pub mod Bounded
pub mod Residues
