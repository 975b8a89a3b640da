-- What Write by placement is asked, and what its functions hand on to each other.
pub mod Asking
pub mod Onwards
pub mod Placing
