-- What the functions of this crate hand on, and what those above hand back, in the rules' terms.
pub mod Serving
pub mod Verdicts
pub mod Changing
pub mod Keys
