-- The laws that the proofs of this crate share.
pub mod Words
pub mod Differences
pub mod Sums
pub mod Summing
pub mod Crossing
pub mod Walks
