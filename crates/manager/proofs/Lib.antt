-- Laws that the functions' proofs share.
pub mod Seeing
pub mod Dispatches
