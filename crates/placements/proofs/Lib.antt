-- Laws that the functions' proofs share.
pub mod Accepted
pub mod Asked
pub mod Users
pub mod Words
pub mod Stepping
pub mod Next
pub mod Placed
