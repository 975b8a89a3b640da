-- The line that is printed for an answer.
pub mod Texts
pub mod Lines
