-- What a proof by hand of a function over a slice of records is made of.
pub mod Rows
pub mod Locals
pub mod Params
pub mod Again
pub mod Turns
