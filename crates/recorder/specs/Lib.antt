-- What the recorder asks of the manager, and what its functions come to. What they promise is said by `rules` (`Recorder`, `Serves`).
pub mod Samples
pub mod Choice
pub mod Newest
pub mod Steps
