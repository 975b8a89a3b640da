pub mod Last
pub mod Made
pub mod Past
pub mod Same
