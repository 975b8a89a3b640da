-- Laws that the functions' proofs share, what the definitions mean, and lines that they compute.
mod Pieces
mod Printing
mod Descriptors
mod Digits
mod ReadBack
pub mod Laws
mod Examples
