-- What opening a block needs, and what Erase is asked and opens.
pub mod Opening
pub mod Erasing
