-- The laws that the proofs of this crate share, and in `Determined` that any two results of a contract coincide.
pub mod Ranks
pub mod Takers
pub mod Least
pub mod Words
pub mod Apart
pub mod Searches
pub mod Determined
