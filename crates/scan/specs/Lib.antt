-- What the scans test and count, and what a command sees of a table.
pub mod Clauses
pub mod First
pub mod Free
pub mod Listing
pub mod Marks
pub mod Scan
pub mod Summary
