-- Laws that the functions' proofs share, here and in the crates above.
pub mod Refusals
pub mod Answering
pub mod Covering
pub mod Ranking
