-- Document 01's "The drive's fixed shape" and "Flash addresses" as definitions, in 01's order.
pub mod Shape
pub mod Address
pub mod Questions
pub mod Bytes
pub mod Answers
