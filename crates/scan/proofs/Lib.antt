-- Laws that the functions' proofs share.
pub mod Marking
pub mod Telling
pub mod Testing
pub mod Places
pub mod Chains
pub mod Seeing
pub mod Outcomes
pub mod Steps
pub mod Choices
pub mod Soundness
pub mod Passing
pub mod Summaries
pub mod Listings
pub mod Coverage
