-- A terrain row by row: what a call does on every input, and what document 02 says of it.
pub mod Called
pub mod Values
pub mod Turns
