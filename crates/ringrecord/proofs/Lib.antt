-- What follows of areas, of records, of their words and of the copies.
pub mod Areas
pub mod Laws
pub mod Copied
