-- Document 01, and Wishes 1 to 3 of 02, as definitions that compute, in 01's order. `Counting` and `Drive` are what
-- the rest is written in.
pub mod Counting
pub mod Drive
pub mod Start
pub mod Domains
pub mod Blocks
pub mod LogPages
pub mod Soundness
pub mod Calls
pub mod Questions
pub mod Recorder
pub mod Effects
pub mod Runs
pub mod Retention
pub mod Observation
pub mod Noninterference
pub mod Countdown
pub mod ProvedTable
pub mod WrongTurns
pub mod Claims
pub mod Example
pub mod Told
