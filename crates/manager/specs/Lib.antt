-- What start hands back, and what serving a command is made of.
pub mod Starting
pub mod Subjects
pub mod Answering
pub mod Looking
