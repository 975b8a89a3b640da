-- Soundness is kept by every call, and no domain can tell a neighbour's call. Views are a domain's abstract state; Facts are the clauses
-- of soundness in terms of it, which Tested ties to the test; Room finds a Free block where coverage leaves room. OneBlock has the change of
-- one block in general, Changes those that commands are made of; Domains has the change of a domain's record, Sweeps that of every block.
-- Onwards and Placement go through a Write by placement, Erasing through an Erase; Calls puts all of them together.
pub mod Entries
pub mod Views
pub mod Facts
pub mod Tested
pub mod Room
pub mod OneBlock
pub mod Sequel
pub mod Mild
pub mod Holdings
pub mod Changes
pub mod Onwards
pub mod Placement
pub mod Fit
pub mod Erasing
pub mod Asked
pub mod Recorder
pub mod Domains
pub mod Sweeps
pub mod Calls
