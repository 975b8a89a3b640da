-- What writes and reads are asked and need, and what they leave.
pub mod Transfers
