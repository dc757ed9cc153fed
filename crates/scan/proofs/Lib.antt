-- What the proofs of this crate share, and in `Laws` what its callers cite.
pub mod Samples
pub mod Rows
pub mod Steps
pub mod Tallies
pub mod Laws
