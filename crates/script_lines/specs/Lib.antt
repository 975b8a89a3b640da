-- The script language: words, numbers, keywords with what follows them, and what a line asks for.
pub mod Words
pub mod Numbers
pub mod Keywords
pub mod Arguments
pub mod Lines
