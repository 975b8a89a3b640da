-- The claim is the last, and nothing is proved in its file. Before it stands what it rests on.
pub mod Contracts
pub mod OtherStore
pub mod Filled
pub mod Steps
pub mod Reference
pub mod Expiry
pub mod Existing
pub mod Example
pub mod Moments
pub mod Retention
pub mod RecorderExample
pub mod Claim
