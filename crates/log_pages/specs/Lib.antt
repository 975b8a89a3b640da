-- What Page and List ask, and a list as it is made.
pub mod LogPages
