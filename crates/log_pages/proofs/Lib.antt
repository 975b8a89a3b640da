-- Laws that the functions' proofs share.
pub mod Filling
pub mod Listing
pub mod Holdings
pub mod Asked
