-- Retention: where only the recorder uses a domain, what it keeps ends with its last samples. Recording says what such a domain is like
-- and that every change leaves it so; Lists goes along a list of calls.
pub mod Recording
pub mod Lists
