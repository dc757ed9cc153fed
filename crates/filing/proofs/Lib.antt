-- What the proofs of this crate share.
pub mod Ranks
pub mod Measures
pub mod Keeping
