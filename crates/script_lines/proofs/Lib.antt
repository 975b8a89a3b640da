-- The laws of scanning, of digits, of looking up a keyword and of reading arguments, and the language on examples.
mod Scanning
mod Digits
mod Looking
mod Reading
mod Examples
