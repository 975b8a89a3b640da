-- Laws that the functions' proofs share.
pub mod Named
pub mod Openings
pub mod Erased
