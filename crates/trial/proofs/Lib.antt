-- Laws that the functions' proofs share.
pub mod Filling
pub mod Bytes
