pub mod Rows
pub mod Filling
pub mod Gathering
pub mod Keeping
pub mod OldestClosed
pub mod Contracts
