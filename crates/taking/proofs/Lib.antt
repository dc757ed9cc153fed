-- The laws that the proofs of this crate share.
pub mod Rows
pub mod Walks
pub mod Passing
