-- What the proofs of this crate and of `plotting` share, and in `Laws` what callers cite.
pub mod Laws
pub mod Walks
