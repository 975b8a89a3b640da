-- Laws that the functions' proofs share, here and in the crates above.
pub mod Rows
pub mod UserAddresses
pub mod Stretches
