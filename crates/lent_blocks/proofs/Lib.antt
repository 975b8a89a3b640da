-- The laws that the proofs cite.
pub mod Chains
pub mod Opening
pub mod Walking
