-- What a block's changes do, and document 01's number and values of each answer.
pub mod Blocks
pub mod Answers
