-- Demand 3 of the program: its calls, its runs, two of them, and the claim; and what a recorder keeps, with two runs of one.
pub mod Calls
pub mod Runs
pub mod Example
pub mod Claim
pub mod Retention
pub mod RecorderExample
