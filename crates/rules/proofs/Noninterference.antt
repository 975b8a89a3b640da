-- A fully reserved domain sees nothing of its neighbours. Pairing gives each of its blocks in one drive a partner in the other; Twins says
-- what has to be shown of the same request in two drives, and a file for each group of commands shows it; Lists is the induction, Moments
-- the claims for every moment of lists from the start.
pub mod Pairing
pub mod Samples
pub mod Twins
pub mod Common
pub mod Addresses
pub mod Readings
pub mod Blocks
pub mod Erase
pub mod WriteByBlock
pub mod WriteByPlacement
pub mod Domains
pub mod Reads
pub mod Recorder
pub mod Requests
pub mod Unasked
pub mod Lists
pub mod Moments
