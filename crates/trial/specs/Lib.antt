-- Tables, commands, the recorder's calls and answers as numbers, and what a trial comes to.
pub mod Rows
pub mod Commands
pub mod Trials
pub mod Running
