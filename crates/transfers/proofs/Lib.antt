-- Laws that the functions' proofs share.
pub mod Addresses
pub mod Asked
pub mod Accepted
pub mod Written
