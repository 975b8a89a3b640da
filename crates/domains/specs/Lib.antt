-- What Create and Change Capacity ask first, a domain's new record, and what is made of it.
pub mod Reserving
