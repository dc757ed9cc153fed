-- The area of a ring that a record names.
pub mod Ringed
