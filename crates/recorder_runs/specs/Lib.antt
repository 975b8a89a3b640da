-- Two lists of calls with a recorder as domain 1, and what the rules make of them.
pub mod Lists
pub mod Shown
